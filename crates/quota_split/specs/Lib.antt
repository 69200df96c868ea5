pub mod Ties
pub mod NodeEnds
pub mod OnceKept
pub mod ForcedRoutes
