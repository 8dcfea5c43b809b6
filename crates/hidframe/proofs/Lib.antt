pub mod Items
pub mod Bytes
pub mod Padding
pub mod Uniqueness
pub mod Existence
