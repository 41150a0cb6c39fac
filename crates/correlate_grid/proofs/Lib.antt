-- Laws of correlation with a grid kernel, leaves first.
pub mod Directed
pub mod SumSizes
pub mod Turn
pub mod EveryRow
pub mod ThreeAxes
pub mod Accepted
