-- What only proofs, and calls further in, cite.
pub mod Tools
pub mod FeePrices
pub mod Chosen
pub mod Turns
