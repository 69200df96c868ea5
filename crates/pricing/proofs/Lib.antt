mod Steps
mod Routes
mod Truths
pub mod Families
mod Growing
mod Predecessors
mod Filling
mod Ahead
mod KeyLemmas
mod Waiters
mod Standing
mod Staying
mod Reaching
mod Opening
mod Busy
