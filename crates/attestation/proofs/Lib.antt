pub mod Listed
pub mod Leaves
pub mod Extending
pub mod Signing
pub mod PointSigning
pub mod Formats
pub mod Reading
