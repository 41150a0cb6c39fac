-- Laws, leaves first.
pub mod EachPass
