pub mod Writes
pub mod Turns
pub mod Runs
pub mod Loop
pub mod Whole
