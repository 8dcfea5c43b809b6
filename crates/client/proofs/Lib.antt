mod Suffixes
mod Single
mod Messages
mod Refusals
