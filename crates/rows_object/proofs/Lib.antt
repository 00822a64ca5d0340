pub mod Arrays
pub mod Held
pub mod Passing
