-- What only proofs, and calls further in, cite.
pub mod NameLists
pub mod NoRow
pub mod RecordsParts
