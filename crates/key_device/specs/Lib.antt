pub mod Acts
pub mod Computing
pub mod Deciding
pub mod Key
pub mod Numbers
pub mod Reading
pub mod Sending
pub mod Stages
