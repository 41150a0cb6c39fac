-- Laws of accepted correlations and convolutions along an axis.
pub mod Passed
pub mod Accepted
pub mod Weighed
pub mod Stores
