pub mod Taken
pub mod Feeding
pub mod Coming
pub mod Judging
pub mod Verdicts
pub mod Objects
pub mod OneVerdict
