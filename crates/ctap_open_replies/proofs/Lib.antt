pub mod Failing
pub mod Telling
pub mod Laws
