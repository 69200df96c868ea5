pub mod Bits
pub mod Places
pub mod RowsPadded
pub mod FactTables
pub mod Parts
pub mod Undone
pub mod Decisions
pub mod BelowDecided
pub mod MarksDecided
pub mod FactsDecided
pub mod FollowingDecided
pub mod Neighbours
pub mod Fitting
pub mod UsableAlong
pub mod LeastRoutes
pub mod LesserFloors
pub mod Floors
pub mod AlongFloors
pub mod Following
pub mod OnlyCarriers
pub mod InTurn
pub mod Weights
pub mod Duality
pub mod Pool
pub mod Settled
pub mod LeastPlan
pub mod LeastWeights
pub mod Dominance
pub mod FamiliesDecided
pub mod DeadEnds
pub mod MoreFacts
pub mod Branches
pub mod Fewer
pub mod Shown
pub mod TreesDecided
pub mod WorkedBook
pub mod WholeLists
pub mod Beginnings
pub mod WholeFamily
pub mod WholeEnds
pub mod WholeCovers
mod WorkedMarks
mod WorkedFollowing
mod WorkedWeights
mod WorkedMoreFacts
mod WorkedTrees
