pub mod Turns
pub mod Defaults
