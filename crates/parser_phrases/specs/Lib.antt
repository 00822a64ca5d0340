pub mod Targets
pub mod Phrases
