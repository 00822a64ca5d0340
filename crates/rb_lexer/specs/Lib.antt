pub mod Strings
pub mod Code
pub mod Heads
pub mod Lexing
