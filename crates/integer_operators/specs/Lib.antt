pub mod Operators
pub mod Straight
