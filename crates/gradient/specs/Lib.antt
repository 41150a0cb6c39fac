-- The Prewitt and Sobel filters, and their conditions.
pub mod Others
pub mod Rows
