pub mod LexError
pub mod State
pub mod Scan
pub mod Trivia
pub mod Names
pub mod Closed
pub mod Signs
