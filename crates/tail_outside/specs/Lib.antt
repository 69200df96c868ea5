pub mod Shown
pub mod Outside
pub mod inside
