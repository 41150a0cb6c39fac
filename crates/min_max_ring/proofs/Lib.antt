-- Laws that belong to no one function, leaves first.
pub mod RingNeeds
pub mod Items
pub mod Chain
pub mod Ring
pub mod Steps
