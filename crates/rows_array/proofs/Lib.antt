pub mod Ends
pub mod Present
