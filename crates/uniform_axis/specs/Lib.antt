-- The means on the lanes of an axis.
pub mod MeanAxisNeeds
pub mod Rows
