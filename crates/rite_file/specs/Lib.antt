pub mod File
pub mod Gives
pub mod Front
pub mod Record
pub mod Seen
pub mod Loaded
pub mod Written
pub mod Refusal
