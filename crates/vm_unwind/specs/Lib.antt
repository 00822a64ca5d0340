pub mod Frames
pub mod Handlers
pub mod Landings
pub mod Levels
