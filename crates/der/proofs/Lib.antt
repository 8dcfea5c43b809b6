pub mod Steps
pub mod Lengths
pub mod Elements
pub mod Refusing
pub mod Clauses
pub mod Integers
pub mod ObjectIdentifiers
