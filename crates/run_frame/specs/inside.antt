-- What only proofs, and calls further in, cite.
pub mod TableFiles
pub mod Answer
pub mod PlanWords
