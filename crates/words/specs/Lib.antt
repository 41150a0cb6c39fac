-- Tables of words.
pub mod Words
pub mod Rows
