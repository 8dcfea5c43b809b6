pub mod Nesting
pub mod Members
pub mod Faults
pub mod Lines
pub mod Written
