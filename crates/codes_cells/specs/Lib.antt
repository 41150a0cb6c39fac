-- Borders, pads and kernels as slices.
pub mod Borders
pub mod Cells
pub mod Rows
