-- Laws of the median's judge.
pub mod Accepted
