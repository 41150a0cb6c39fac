-- Laws of axes and their sources, leaves first.
pub mod Lines
pub mod Sources
