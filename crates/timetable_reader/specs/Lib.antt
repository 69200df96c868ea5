pub mod Activity
pub mod Timetable
pub mod inside
