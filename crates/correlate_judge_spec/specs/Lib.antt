-- The conditions of correlation and convolution along an axis.
pub mod Judge
pub mod WeightRows
pub mod KernelJudge
pub mod Convolution
pub mod KernelRows
pub mod Rows
