pub mod Runs
pub mod Beginnings
pub mod SoFar
pub mod Shows
pub mod Exactly
pub mod Laws
pub mod Taken
pub mod Reception
pub mod Left
pub mod Readings
mod Lines
pub mod Moves
pub mod Steps
pub mod Calls
pub mod Hearing
pub mod Telling
pub mod Whole
pub mod Most
