-- The padded line of a lane, and a line filter on padded lanes.
pub mod Line
pub mod Lane
pub mod Rims
pub mod LineRows
pub mod Steps
pub mod StepRows
pub mod Rows
