-- What only proofs, and calls further in, cite.
pub mod Fair
pub mod Truth
pub mod Filled
pub mod Laws
pub mod ForAsked
pub mod Asked
pub mod Prepared
