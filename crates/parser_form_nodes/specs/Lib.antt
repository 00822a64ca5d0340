pub mod Parameters
pub mod Definitions
pub mod Targets
pub mod Sections
