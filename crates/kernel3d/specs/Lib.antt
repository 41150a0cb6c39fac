-- The shapes of 3D kernels.
pub mod Shape
pub mod Rows
