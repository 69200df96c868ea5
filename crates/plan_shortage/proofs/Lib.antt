pub mod Shares
pub mod Due
pub mod MostLemmas
pub mod MoreMosts
pub mod Tested
pub mod Weighed
mod Worked
