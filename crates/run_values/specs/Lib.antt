pub mod Answers
pub mod Raisable
pub mod Splats
pub mod Levels
