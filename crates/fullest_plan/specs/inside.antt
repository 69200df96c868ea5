-- What only proofs, and calls further in, cite.
pub mod Laws
pub mod Seeker
