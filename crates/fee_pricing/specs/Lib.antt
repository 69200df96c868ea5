pub mod Arcs
pub mod Price
pub mod inside
