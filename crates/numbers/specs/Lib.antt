-- What the kit lacks and every crate above shares.
pub mod Limits
pub mod Lists
pub mod Number
pub mod Order
pub mod Ranges
pub mod Refusal
pub mod Sums
pub mod Windows
pub mod Rows
