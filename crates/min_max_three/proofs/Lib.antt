-- Laws.
pub mod Three
