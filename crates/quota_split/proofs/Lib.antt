pub mod TieCounts
pub mod OnceLemmas
pub mod TiedUses
pub mod ForcedRoutes
