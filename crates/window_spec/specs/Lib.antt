-- The window of a cell: origins, pads, conditions 5, 7 and 11.
pub mod Origin
pub mod Window
pub mod Rows
