pub mod Amiss
pub mod Lists
pub mod Named
pub mod OneOf
pub mod Depths
