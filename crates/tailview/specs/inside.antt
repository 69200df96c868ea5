-- What only proofs, and calls further in, cite.
pub mod Texts
pub mod Shortages
