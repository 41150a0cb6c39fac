-- Correlation with a grid kernel.
pub mod Kernel
pub mod Rows
