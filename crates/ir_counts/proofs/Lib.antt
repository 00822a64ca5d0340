pub mod Limits
pub mod Locals
pub mod PartCounts
