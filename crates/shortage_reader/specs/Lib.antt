pub mod Told
pub mod BookIds
pub mod ShortageText
pub mod inside
