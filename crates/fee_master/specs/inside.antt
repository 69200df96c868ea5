-- What only proofs, and calls further in, cite.
pub mod Uses
pub mod Lines
pub mod Settling
