-- What only proofs, and calls further in, cite.
pub mod FreeBefore
pub mod NumberSet
pub mod CurfewTable
pub mod PermissionTable
