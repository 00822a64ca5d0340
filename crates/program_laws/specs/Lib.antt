pub mod Fits
pub mod Knows
pub mod Example
