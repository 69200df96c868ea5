pub mod CounterLemmas
pub mod Numerals
pub mod ReadBack
pub mod Steps
pub mod Values
pub mod WriteSteps
pub mod Written
