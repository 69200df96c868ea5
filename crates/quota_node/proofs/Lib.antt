pub mod FirstPriced
pub mod FoundRoutes
pub mod FreePairs
pub mod Looks
pub mod Holes
pub mod Choices
