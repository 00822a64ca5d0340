pub mod Needs
pub mod Checks
pub mod Plain
pub mod Verified
pub mod Known
pub mod Answers
pub mod Holds
pub mod Refusal
