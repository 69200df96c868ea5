-- What only proofs, and calls further in, cite.
pub mod Cuts
pub mod Drawable
pub mod Laws
