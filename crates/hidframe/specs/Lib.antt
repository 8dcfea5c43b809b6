pub mod Packets
pub mod Frames
pub mod Pieces
pub mod Numbers
