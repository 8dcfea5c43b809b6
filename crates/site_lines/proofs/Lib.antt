pub mod Kept
pub mod Finished
pub mod Detailed
pub mod Caused
pub mod Batched
pub mod Shallow
pub mod Counted
