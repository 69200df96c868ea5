-- What only proofs, and calls further in, cite.
pub mod Outside
pub mod OverFile
pub mod Seen
pub mod Held
pub mod Sure
