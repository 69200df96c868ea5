pub mod Potentials
pub mod UsesAtLeast
