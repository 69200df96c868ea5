-- What only proofs, and calls further in, cite.
pub mod Met
pub mod BookNames
pub mod Marks
pub mod Times
pub mod MetNames
pub mod Kept
pub mod LegCost
pub mod PastLimits
pub mod Told
pub mod PlanCost
pub mod Laws
