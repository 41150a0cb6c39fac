-- Laws that belong to no one function, leaves first. From OneLane on: lanes that are padded, filtered and written back, over any element and line filter.
pub mod Padded
pub mod Reach
pub mod Rims
pub mod RimSteps
pub mod From
pub mod Serves
pub mod EveryPadded
pub mod Sizes
pub mod OneLane
pub mod EveryLane
pub mod RowLoop
pub mod ColumnLoop
pub mod StepByStep
pub mod LineRows
pub mod StepRows
