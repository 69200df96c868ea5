pub mod CivilDays
pub mod ReadBack
pub mod Worked
