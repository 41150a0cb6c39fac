-- Laws of what fills a lane's rims, and of lanes padded in place, that belong to no one function.
pub mod Fillers
pub mod Rims
pub mod Serves
pub mod PairOf
pub mod Sizes
pub mod Levels
pub mod Axis
pub mod Room
pub mod AxisByAxis
pub mod Fills
pub mod OneRow
pub mod RimRows
pub mod LevelRows
pub mod FrameRows
