pub mod Finishing
pub mod Told
