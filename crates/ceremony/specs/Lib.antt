pub mod Numbers
pub mod Packets
pub mod Verdict
pub mod SignIn
pub mod Registration
