pub mod Summaries
pub mod State
pub mod Sessions
pub mod Calls
pub mod Causes
pub mod Private
pub mod Laws
pub mod Starts
