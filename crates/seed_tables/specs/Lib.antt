pub mod Draws
pub mod Flights
pub mod Rows
pub mod Trial
pub mod Making
pub mod inside
