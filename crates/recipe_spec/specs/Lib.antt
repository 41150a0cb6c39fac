-- Recipes, their files and the player.
pub mod Recipes
pub mod Back
pub mod Player
pub mod Before
pub mod FileRows
pub mod PlayRows
pub mod Rows
