-- Laws that belong to no one function, leaves first.
pub mod Computed
pub mod Running
pub mod Sorting
pub mod Rank
pub mod NextRank
pub mod Served
pub mod Sizes
pub mod Offset
pub mod Bisection
