pub mod Numbers
pub mod Moved
pub mod Told
pub mod Canonical
pub mod Algorithms
pub mod Accepted
pub mod OneText
