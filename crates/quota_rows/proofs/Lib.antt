pub mod Belonging
pub mod DayLemmas
pub mod FeeSums
pub mod FeeDuality
pub mod QuotaLemmas
pub mod UseLemmas
