pub mod NumberSets
pub mod Offsets
pub mod Permissions
mod Turns
