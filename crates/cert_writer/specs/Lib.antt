pub mod CertText
pub mod EventLines
pub mod LogText
pub mod Trailer
pub mod inside
