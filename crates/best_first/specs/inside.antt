-- What only proofs, and calls further in, cite.
pub mod Links
pub mod Slots
pub mod BestParts
pub mod Visits
pub mod Tellings
