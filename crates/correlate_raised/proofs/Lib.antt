-- Laws of the sums of raised terms.
pub mod Directed
pub mod RaisedBase
pub mod RaisedStart
pub mod RaisedTurns
pub mod RaisedSums
