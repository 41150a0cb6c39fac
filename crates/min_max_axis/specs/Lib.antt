-- One lane of the minimum and maximum filters.
pub mod Lane
pub mod Rows
