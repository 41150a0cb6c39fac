-- Laws.
pub mod Running
