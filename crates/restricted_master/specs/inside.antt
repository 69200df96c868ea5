-- What only proofs, and calls further in, cite.
pub mod Hash
pub mod Flat
pub mod Index
pub mod Choices
pub mod Listing
pub mod Least
pub mod Moving
pub mod Leaps
