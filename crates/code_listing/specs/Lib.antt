pub mod Inspect
pub mod Listing
pub mod Info
