-- Laws.
pub mod Coded
