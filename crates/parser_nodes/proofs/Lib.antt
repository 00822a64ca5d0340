pub mod Lists
pub mod Elements
pub mod Calls
pub mod Integers
