-- One-axis minimum and maximum calls, lists of them, and the rule on the order of axes.
pub mod Call
pub mod Run
pub mod Filters
pub mod Order
pub mod Steps
pub mod Rows
