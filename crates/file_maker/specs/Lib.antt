pub mod Disk
pub mod Making
pub mod Storing
