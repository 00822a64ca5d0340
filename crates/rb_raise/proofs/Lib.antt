pub mod Names
pub mod Strings
pub mod Details
