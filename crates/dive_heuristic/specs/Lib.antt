pub mod LeastRoutes
pub mod Choice
pub mod Dive
pub mod Divers
pub mod inside
