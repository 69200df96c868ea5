-- What only proofs, and calls further in, cite.
pub mod Report
pub mod Laws
pub mod Raised
pub mod Found
pub mod Rungs
