-- The text of a grid: by its words, byte by byte, and what the two say of each other; levels as lines.
pub mod Words
pub mod Machine
pub mod Texts
pub mod Lines
pub mod Rows
