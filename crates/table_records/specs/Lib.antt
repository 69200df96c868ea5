pub mod Fields
pub mod Lists
pub mod NameLists
pub mod Records
pub mod Table
pub mod Values
pub mod inside
