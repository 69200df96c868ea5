pub mod Seen
pub mod Cutting
pub mod inside
