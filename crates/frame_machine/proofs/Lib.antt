pub mod Levels
pub mod Plainly
pub mod Runs
pub mod Turns
