-- Laws.
pub mod EveryAxis
