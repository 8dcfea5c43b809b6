pub mod Algorithms
pub mod Bytes
mod Judging
pub mod Texts
