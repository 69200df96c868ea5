pub mod LeftOut
pub mod inside
