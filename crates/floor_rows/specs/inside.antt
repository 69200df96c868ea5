-- What only proofs, and calls further in, cite.
pub mod FloorRow
pub mod LeastOver
pub mod Neighbours
pub mod AskedLinks
