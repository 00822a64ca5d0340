pub mod Names
pub mod Lasts
