-- Terms of a float sum, and their rows.
pub mod Four
pub mod Rows
