-- Laws of the calls.
pub mod Accepted
pub mod Laid
pub mod Started
