-- The definitions are `pad_line`'s, over any element; here are rows of them on floats.
pub mod Rows
