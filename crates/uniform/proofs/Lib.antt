-- Laws of accepted calls.
pub mod Accepted
