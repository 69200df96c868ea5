-- What only proofs, and calls further in, cite.
pub mod WeightRange
pub mod Truth
pub mod Growth
pub mod Filled
pub mod Ends
pub mod Lines
pub mod Waiting
pub mod Airports
pub mod ForAsked
pub mod ForLines
pub mod Asked
pub mod Prepared
pub mod Laws
