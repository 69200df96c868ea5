-- What only proofs, and calls further in, cite.
pub mod Joined
pub mod PartsLeft
pub mod Reading
