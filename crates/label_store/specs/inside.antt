-- What only proofs, and calls further in, cite.
pub mod RowsParts
pub mod Packing
pub mod Laws
pub mod Growth
