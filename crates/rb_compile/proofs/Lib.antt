pub mod Compiled
pub mod Coded
pub mod Causes
