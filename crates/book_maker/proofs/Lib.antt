pub mod NameTurns
pub mod OrderLemmas
pub mod EachLemmas
pub mod EntryLemmas
pub mod FoundLemmas
pub mod JudgeLemmas
pub mod CarryLemmas
pub mod EntryFacts
pub mod TagLemmas
pub mod ChangeLemmas
pub mod MadeLemmas
mod Examples
