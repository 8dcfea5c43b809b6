pub mod Steps
pub mod Registrations
pub mod Expected
pub mod Differing
