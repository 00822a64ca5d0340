pub mod Keeping
pub mod Stacking
pub mod Steps
pub mod Storing
pub mod Writing
pub mod Padding
