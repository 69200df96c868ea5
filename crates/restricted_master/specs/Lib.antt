pub mod Seen
pub mod Pool
pub mod Lists
pub mod Adding
pub mod Keeping
pub mod inside
