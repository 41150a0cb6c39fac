-- Laws on numbers as text.
pub mod Numerals
pub mod Turned
pub mod Digits
pub mod Returned
pub mod Written
