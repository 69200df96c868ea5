-- What only proofs, and calls further in, cite.
pub mod FourTexts
pub mod Repairs
pub mod Whys
pub mod Outcomes
pub mod Quotas
pub mod Tasks
pub mod Ending
pub mod Trials
