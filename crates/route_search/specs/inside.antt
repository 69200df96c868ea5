-- What only proofs, and calls further in, cite.
pub mod Task
pub mod Followers
pub mod Completion
pub mod Reach
pub mod Ends
pub mod ForTask
pub mod Laws
