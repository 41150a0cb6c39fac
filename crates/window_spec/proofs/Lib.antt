-- Laws of origins that belong to no one function, leaves first.
pub mod Origins
pub mod Answered
pub mod Changed
pub mod Reach
