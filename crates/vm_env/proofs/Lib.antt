pub mod Windows
pub mod Keeping
