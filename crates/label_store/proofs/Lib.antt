mod Packing
mod Compaction
mod Buckets
mod Entering
mod Offers
mod OneBucket
pub mod Growing
