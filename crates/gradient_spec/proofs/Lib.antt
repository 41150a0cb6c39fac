-- Laws, leaves first.
pub mod Sums
