pub mod Quoted
pub mod Expected
pub mod Serialised
pub mod Verified
pub mod Reading
pub mod Passing
pub mod Found
pub mod Refusals
