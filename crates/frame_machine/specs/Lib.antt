pub mod Runs
pub mod Standing
pub mod Turns
pub mod Waking
