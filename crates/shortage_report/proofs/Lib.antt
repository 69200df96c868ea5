pub mod Totals
pub mod Telling
