-- Laws of borders.
pub mod AnyAxis
pub mod OneBorder
