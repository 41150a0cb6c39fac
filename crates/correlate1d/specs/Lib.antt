-- What the workers of correlate1d and convolve1d suppose.
pub mod WeighNeeds
pub mod Rows
