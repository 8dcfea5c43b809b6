pub mod Packets
pub mod Knowing
pub mod Steps
pub mod Purposes
pub mod Acts
pub mod Written
pub mod Private
pub mod Shallow
