pub mod Spelled
pub mod TreesFound
pub mod TreeSpelling
pub mod Accepted
pub mod Writing
