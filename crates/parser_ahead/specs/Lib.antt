pub mod Names
pub mod Sections
pub mod Groups
pub mod Primary
pub mod Kept
