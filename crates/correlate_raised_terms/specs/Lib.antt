-- Raised numbers and their products.
pub mod Narrow
pub mod Products
pub mod Rows
