-- What only proofs, and calls further in, cite.
pub mod Told
pub mod Laws
