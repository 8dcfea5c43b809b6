pub mod Pairs
pub mod Saying
