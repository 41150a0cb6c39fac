-- Laws.
pub mod Cut
