pub mod Runs
pub mod Vouched
pub mod Signed
