mod Staying
mod Frames
mod Marks
