-- Laws on the text of a grid.
pub mod Bytes
pub mod Summary
pub mod Shapes
pub mod Verdict
pub mod Lexed
pub mod Filled
pub mod Grids
pub mod Shaped
pub mod Lined
