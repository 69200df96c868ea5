-- What only proofs, and calls further in, cite.
pub mod SameFor
pub mod OneMore
pub mod Rows
pub mod Settling
pub mod Touching
pub mod Moves
pub mod Suspects
pub mod Work
pub mod Unnamed
pub mod Cutting
pub mod Rising
pub mod Lowest
pub mod CutOff
