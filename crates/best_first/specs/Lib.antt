pub mod Rank
pub mod Order
pub mod BestTree
pub mod BestSearch
pub mod Laws
pub mod inside
