pub mod Rsa
pub mod Keys
pub mod Reading
pub mod Schemes
pub mod Bench
pub mod Listed
