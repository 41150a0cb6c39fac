-- Laws of lists of calls, leaves first.
pub mod AxisRows
pub mod Reach
pub mod Passed
pub mod Windows
pub mod Sweep
pub mod Levels
pub mod Calls
pub mod Box
pub mod Perms
