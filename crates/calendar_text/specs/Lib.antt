pub mod Moment
pub mod inside
