pub mod InTurn
pub mod Closed
pub mod KeptSeen
pub mod Keeping
pub mod inside
