pub mod Credentials
pub mod Tables
pub mod Fitting
pub mod Versions
pub mod Judged
pub mod Kept
pub mod Goings
