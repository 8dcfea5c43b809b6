pub mod Named
pub mod Answers
pub mod Details
pub mod Causes
pub mod Batches
pub mod Private
pub mod Written
