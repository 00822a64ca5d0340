pub mod Value
pub mod Failure
