pub mod Rows
pub mod Price
pub mod inside
