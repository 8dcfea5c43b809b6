pub mod History
pub mod Made
pub mod Among
pub mod Stored
pub mod Shown
