pub mod Spelled
pub mod Tables
pub mod TableFiles
pub mod Words
pub mod Answer
pub mod Promise
pub mod inside
