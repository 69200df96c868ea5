-- What only proofs, and calls further in, cite.
pub mod Activity
pub mod ActivityParts
pub mod ReadParts
