mod CarryFieldExamples
mod RulesExamples
pub mod EntryLemmas
pub mod TomlLemmas
