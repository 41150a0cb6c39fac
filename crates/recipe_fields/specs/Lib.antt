-- Recipes as plain numbers.
pub mod Fields
pub mod Back
pub mod Rows
