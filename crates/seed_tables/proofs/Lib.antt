pub mod FlightLemmas
pub mod LineLemmas
pub mod TableLemmas
pub mod StampLemmas
pub mod RouteLemmas
pub mod RulesLemmas
pub mod ReadLemmas
pub mod MadeLemmas
pub mod NewNames
pub mod PlaceLemmas
pub mod BookLemmas
pub mod PlanLemmas
pub mod LeastLemmas
pub mod TrialLemmas
mod Examples
