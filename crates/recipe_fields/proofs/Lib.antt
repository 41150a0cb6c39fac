-- Laws of recipes as plain numbers.
pub mod Places
pub mod Held
pub mod Judge
pub mod Back
