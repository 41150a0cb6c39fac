-- Laws of arrays that belong to no one function, leaves first.
pub mod Places
pub mod Shapes
pub mod Judged
pub mod Strides
