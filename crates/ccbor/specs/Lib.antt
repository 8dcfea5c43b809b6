pub mod Item
pub mod View
pub mod Canon
pub mod Reading
pub mod Viewing
pub mod Writing
pub mod Access
pub mod Refusals
