-- What only proofs, and calls further in, cite.
pub mod Changes
pub mod Known
pub mod KnownParts
pub mod LookedUp
