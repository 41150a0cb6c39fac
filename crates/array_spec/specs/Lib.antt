-- Arrays of one to three axes, and the conditions on them.
pub mod Grid
pub mod Conditions
pub mod Assign
pub mod Rows
