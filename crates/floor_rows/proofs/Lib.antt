pub mod KeptFloors
pub mod LeastOver
pub mod Brought
pub mod Neighbours
pub mod ComeOn
pub mod AskedLinks
pub mod DeadByFloors
