-- Laws.
pub mod Column
