-- What only proofs, and calls further in, cite.
pub mod State
pub mod Owing
pub mod Kept
