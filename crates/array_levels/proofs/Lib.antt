-- Laws.
pub mod Finite
pub mod Raising
pub mod Halves
