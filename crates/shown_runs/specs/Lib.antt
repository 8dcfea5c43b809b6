pub mod Telling
pub mod Forged
