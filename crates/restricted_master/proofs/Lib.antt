mod Small
mod Prices
mod LeastPrices
pub mod Listing
pub mod Members
pub mod LeastBelow
mod PoolLeast
mod Chosen
mod OwnLeast
pub mod Shifted
mod PoolSums
mod Climbing
mod FlatPool
mod Indexing
mod Compaction
mod KeptPool
