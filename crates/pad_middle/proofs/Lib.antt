-- Laws.
pub mod Targets
pub mod Row
pub mod RowPlace
pub mod RowSteps
pub mod Copied
pub mod RowWalk
pub mod Rising
pub mod Gaps
