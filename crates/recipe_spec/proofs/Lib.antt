-- Laws of recipes, leaves first.
pub mod Steps
pub mod Judge
pub mod Read
pub mod Written
pub mod Before
pub mod Played
pub mod FileRows
pub mod PlayRows
