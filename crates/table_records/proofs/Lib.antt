mod Examples
pub mod FieldLemmas
pub mod Rest
pub mod RowLemmas
pub mod TextLemmas
pub mod ListLemmas
