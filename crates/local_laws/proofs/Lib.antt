pub mod Searching
pub mod Keeping
pub mod Growing
