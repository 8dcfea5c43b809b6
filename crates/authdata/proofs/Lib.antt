pub mod Fronts
pub mod Joins
pub mod Firsts
pub mod Unique
pub mod NoRefusal
pub mod Statements
pub mod Objects
