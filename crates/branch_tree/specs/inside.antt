-- What only proofs, and calls further in, cite.
pub mod StepParts
pub mod NodeBound
pub mod OpenPlaces
pub mod SearchParts
