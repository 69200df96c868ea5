pub mod HeldLemmas
pub mod OutsideLemmas
pub mod ReadLemmas
