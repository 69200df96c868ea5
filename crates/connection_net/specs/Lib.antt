pub mod Seen
pub mod Net
pub mod inside
