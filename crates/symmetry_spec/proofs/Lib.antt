-- Laws of the symmetry class.
pub mod Bits
pub mod Epsilon
pub mod Search
pub mod Steps
pub mod Mirrored
