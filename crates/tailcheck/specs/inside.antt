-- What only proofs, and calls further in, cite.
pub mod Texts
pub mod Findings
pub mod Fed
