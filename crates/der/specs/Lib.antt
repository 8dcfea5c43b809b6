pub mod Encoding
pub mod Refusals
pub mod Reading
