-- The worked examples of document 01.
pub mod Examples
