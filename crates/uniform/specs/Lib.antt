-- The calls of the uniform filters.
pub mod PassNeeds
pub mod Rows
