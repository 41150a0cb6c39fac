-- Laws.
pub mod MeanLineNeeds
