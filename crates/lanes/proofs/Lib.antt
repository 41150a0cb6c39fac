-- Laws of lanes that belong to no one function, leaves first.
pub mod Cells
pub mod Next
pub mod FirstPlace
pub mod Stores
pub mod Part
pub mod AlongAxis
pub mod Passes
