pub mod Kinds
pub mod Procs
pub mod Standing
pub mod Fits
pub mod Reached
pub mod Example
