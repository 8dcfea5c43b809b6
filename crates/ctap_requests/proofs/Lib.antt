pub mod Ranks
pub mod Laws
pub mod Commands
pub mod Unwritten
pub mod Options
