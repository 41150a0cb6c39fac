-- The symmetry class of a kernel.
pub mod Class
pub mod Rows
