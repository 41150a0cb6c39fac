-- Laws.
pub mod Lifting
