pub mod Stages
pub mod Exchanging
pub mod Lists
pub mod Gathering
