mod Packets
mod Taken
pub mod Depths
