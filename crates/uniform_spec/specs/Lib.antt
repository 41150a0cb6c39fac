-- The uniform filters and their conditions.
pub mod Uniform
pub mod Judge
pub mod JudgeRows
pub mod Mean
pub mod MeanRows
pub mod Rows
