pub mod OrderedTree
pub mod SearchText
pub mod Written
pub mod inside
