-- What only proofs, and calls further in, cite.
pub mod MarkTests
pub mod Fitting
pub mod MoreFacts
pub mod FloorLaws
pub mod FactTests
pub mod FollowingTests
pub mod FamilyTests
pub mod BranchTests
pub mod TreeTests
pub mod BitRows
pub mod Once
pub mod Named
pub mod MarkTables
pub mod TrailRows
pub mod MarkParts
pub mod RowParts
pub mod WholeFamilies
