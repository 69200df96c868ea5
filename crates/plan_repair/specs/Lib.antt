pub mod LeastRepair
pub mod RepairText
pub mod inside
