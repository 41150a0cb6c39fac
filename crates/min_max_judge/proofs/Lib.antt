-- Laws.
pub mod Taken
