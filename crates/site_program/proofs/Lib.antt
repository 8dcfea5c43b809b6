mod Told
pub mod Words
