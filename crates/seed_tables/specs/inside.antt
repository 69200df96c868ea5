-- What only proofs, and calls further in, cite.
pub mod Halves
pub mod Plain
pub mod TrialBook
pub mod RawTrial
pub mod Ids
pub mod Least
