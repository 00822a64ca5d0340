pub mod Holding
pub mod Readying
pub mod Throwing
pub mod Unopened
