pub mod Why
pub mod Spans
pub mod ShareText
pub mod ShortageText
pub mod inside
