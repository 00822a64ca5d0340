pub mod Levels
pub mod Growth
pub mod Standing
