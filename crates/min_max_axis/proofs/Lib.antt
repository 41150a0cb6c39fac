-- Laws.
pub mod ByLanes
pub mod OnePass
