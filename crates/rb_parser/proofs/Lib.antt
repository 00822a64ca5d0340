pub mod Deep
pub mod Causes
