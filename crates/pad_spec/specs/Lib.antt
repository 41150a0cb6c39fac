-- What padding fills a lane with.
pub mod Fill
pub mod RimRows
pub mod Pads
pub mod Levels
pub mod Conditions
pub mod LevelRows
pub mod Frame
pub mod Filled
pub mod Runs
pub mod FrameRows
pub mod Rows
