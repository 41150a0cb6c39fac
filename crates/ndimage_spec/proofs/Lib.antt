-- Laws.
pub mod Letters
