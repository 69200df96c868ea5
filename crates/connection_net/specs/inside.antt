-- What only proofs, and calls further in, cite.
pub mod Rows
pub mod AircraftSet
pub mod LinkTable
pub mod Laws
