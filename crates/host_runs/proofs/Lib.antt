pub mod Tables
pub mod Steps
pub mod Accepted
pub mod Runs
pub mod Races
pub mod Shown
