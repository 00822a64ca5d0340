pub mod Ended
pub mod Running
pub mod Writing
pub mod Closures
pub mod Exits
pub mod Classes
pub mod Values
pub mod Shown
