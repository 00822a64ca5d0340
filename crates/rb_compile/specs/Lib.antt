pub mod Errors
pub mod Refusal
pub mod Language
pub mod Compiled
pub mod Causes
