pub mod AircraftSets
pub mod Among
pub mod Filters
pub mod Links
pub mod RowLaws
pub mod RowPlaces
pub mod RowLists
pub mod Worked
