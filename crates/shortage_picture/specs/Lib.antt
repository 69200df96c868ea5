pub mod Sides
pub mod Fixed
pub mod Lanes
pub mod Span
pub mod Strips
pub mod Picture
