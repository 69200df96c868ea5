-- What only proofs, and calls further in, cite.
pub mod Assignment
pub mod Enumeration
pub mod BookTables
pub mod Decided
