pub mod Books
pub mod Flights
pub mod MadeBooks
pub mod Routes
pub mod Printing
pub mod Files
pub mod Texts
