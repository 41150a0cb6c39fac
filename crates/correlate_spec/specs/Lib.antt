-- The weighted sum of a window, over any element.
pub mod Weighed
pub mod WindowSum
pub mod Correlated
pub mod Convolved
pub mod Kernel
pub mod Rows
pub mod Sizes
pub mod Lengths
pub mod Joined
