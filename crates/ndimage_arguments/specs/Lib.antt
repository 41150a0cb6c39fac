-- The arguments of calls.
pub mod Arguments
pub mod Rows
