pub mod Taken
pub mod Visited
pub mod Wanted
pub mod Started
pub mod Lifted
pub mod Ended
