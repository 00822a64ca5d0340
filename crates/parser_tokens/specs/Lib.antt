pub mod Tokens
pub mod Operators
pub mod Starts
pub mod Expect
pub mod Reads
