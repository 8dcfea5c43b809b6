pub mod Finding
pub mod Stopping
