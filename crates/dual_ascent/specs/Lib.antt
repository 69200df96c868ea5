pub mod Seen
pub mod Ascent
