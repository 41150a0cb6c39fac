-- Requests of the program `ndimage`.
pub mod Requests
pub mod Parts
pub mod Faults
pub mod Reading
pub mod Hexadecimal
pub mod Rows
