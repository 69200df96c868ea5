-- What only proofs, and calls further in, cite.
pub mod Report
pub mod AuditText
pub mod Laws
pub mod PlanText
