-- What only proofs, and calls further in, cite.
pub mod Adding
pub mod Noting
