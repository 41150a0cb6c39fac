-- Laws of the median, leaves first.
pub mod Totals
pub mod Adding
pub mod Reach
pub mod Spans
pub mod Voted
pub mod ThreeAxes
pub mod Row
pub mod EveryRow
