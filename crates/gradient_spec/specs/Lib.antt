-- The Prewitt and Sobel filters, and their conditions.
pub mod Gradient
pub mod Judge
pub mod Rows
