pub mod Assigned
pub mod Fliers
pub mod Extended
pub mod Rows
pub mod Trials
pub mod Truth
