-- What only proofs, and calls further in, cite.
pub mod Ownership
pub mod Blocks
pub mod Chunks
