pub mod Rows
pub mod Histories
pub mod Shown
