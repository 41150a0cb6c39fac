-- What the workers of `pad` and `pad_to` leave.
pub mod Laid
pub mod Rows
