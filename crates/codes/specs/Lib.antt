-- Codes and words for callers in other languages and for requests.
pub mod Codes
pub mod Words
pub mod Rows
