pub mod Lines
pub mod Faults
pub mod VerifiedSignatures
pub mod Private
pub mod Options
pub mod Joined
pub mod Asked
