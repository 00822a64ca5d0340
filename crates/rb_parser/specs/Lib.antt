pub mod Levels
pub mod Program
pub mod Places
