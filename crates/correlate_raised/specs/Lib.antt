-- Weighted sums of raised numbers.
pub mod Raised
pub mod Rows
