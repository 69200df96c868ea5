pub mod Lines
pub mod Refused
pub mod TextLines
pub mod Report
pub mod AuditText
pub mod PlanText
pub mod inside
