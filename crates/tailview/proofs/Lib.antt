pub mod Examples
pub mod MatchedNames
pub mod Promised
pub mod ReadTexts
pub mod ShortagePromised
pub mod WordLaws
