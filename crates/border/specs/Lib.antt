-- Borders: the extension of a lane and of a grid, the border and padding modes.
pub mod Border
pub mod Axes
pub mod Modes
pub mod Reach
pub mod Rows
pub mod AxesRows
