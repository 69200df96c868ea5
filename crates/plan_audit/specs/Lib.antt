pub mod Met
pub mod Kept
pub mod Rules
pub mod Broken
pub mod inside
