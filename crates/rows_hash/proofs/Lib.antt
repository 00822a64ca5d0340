pub mod More
pub mod Put
pub mod Steps
pub mod Receiver
pub mod Merged
