-- Laws of raised numbers.
pub mod RaisedLists
pub mod RaisedNumber
pub mod RaisedCells
