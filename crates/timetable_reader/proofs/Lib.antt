mod Examples
pub mod ActivityLemmas
