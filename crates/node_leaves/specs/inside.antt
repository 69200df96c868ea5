-- What only proofs, and calls further in, cite.
pub mod EventLists
pub mod PricedStore
pub mod Leaf
pub mod FittingPool
pub mod Field
pub mod NewRoutes
pub mod SearchRoutes
