pub mod Paths
pub mod Among
pub mod Outcomes
pub mod Renamed
pub mod Removed
