-- Laws of one kernel row on a row of the grid, leaves first.
pub mod RowLine
pub mod KernelRow
