pub mod Fine
pub mod Outcomes
pub mod Anywhere
