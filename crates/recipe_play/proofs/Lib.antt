-- Laws of the loops over steps.
pub mod Turns
pub mod Passes
pub mod OneStep
pub mod Called
