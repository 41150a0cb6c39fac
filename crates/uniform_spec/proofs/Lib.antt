-- Laws, leaves first.
pub mod Window
pub mod Sums
pub mod JudgeRows
pub mod MeanRows
