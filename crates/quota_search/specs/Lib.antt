pub mod QuotaOutcome
pub mod inside
