pub mod Keyed
pub mod Lists
pub mod Amiss
pub mod Asked
pub mod Commas
