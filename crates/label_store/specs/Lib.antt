pub mod Seen
pub mod Buckets
pub mod Store
pub mod Offers
pub mod inside
