-- Laws, leaves first.
pub mod Sums
pub mod Chain
pub mod Equal
pub mod KernelChain
pub mod Convolution
pub mod WeightRows
pub mod KernelRows
