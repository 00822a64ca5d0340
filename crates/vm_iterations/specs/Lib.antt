pub mod Beginning
pub mod Ending
pub mod Following
pub mod Plainly
pub mod Reporting
