-- What the sums of each lane suppose.
pub mod WeightNeeds
pub mod Rows
