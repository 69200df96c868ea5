pub mod RaisedCosts
pub mod LeastPlans
pub mod RungLemmas
pub mod ReportLemmas
