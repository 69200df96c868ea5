pub mod PoolSum
pub mod SettledFees
pub mod inside
