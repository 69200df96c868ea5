-- What only proofs, and calls further in, cite.
pub mod RawRules
pub mod RawRulesParts
pub mod Tail
pub mod TailParts
pub mod Zone
