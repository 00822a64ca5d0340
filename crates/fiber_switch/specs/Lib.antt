pub mod Frames
pub mod Switching
