-- What only proofs, and calls further in, cite.
pub mod Flown
pub mod DiveSteps
pub mod Kept
pub mod Laws
