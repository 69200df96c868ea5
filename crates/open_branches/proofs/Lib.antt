pub mod BranchLists
