pub mod QuotaNode
pub mod inside
