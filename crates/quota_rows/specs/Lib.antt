pub mod Belongs
pub mod FeeBound
pub mod FeeWeights
pub mod Fees
pub mod KeptPlans
pub mod QuotaAnswers
pub mod QuotaTable
