-- What only proofs, and calls further in, cite.
pub mod Buckets
pub mod Kept
pub mod KeptFloors
pub mod Leaf
pub mod LeafPricer
pub mod Means
pub mod Pieces
pub mod ToldLines
pub mod Ways
