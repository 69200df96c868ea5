pub mod LeastWithin
pub mod Search
pub mod inside
