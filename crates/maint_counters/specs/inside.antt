-- What only proofs, and calls further in, cite.
pub mod Counts
pub mod LegalRoute
pub mod StepTable
