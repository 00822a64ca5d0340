pub mod Bodies
pub mod Spaces
pub mod Steps
