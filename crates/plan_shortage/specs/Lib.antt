pub mod Shortage
pub mod inside
