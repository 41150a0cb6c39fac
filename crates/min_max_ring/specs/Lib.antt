-- The windows' extremes, the ring of pairs, and worked rows of both.
pub mod Extremes
pub mod Ring
pub mod Rows
