pub mod Saved
pub mod Private
pub mod Views
pub mod State
pub mod Answers
pub mod Laws
pub mod Numbers
pub mod Codes
