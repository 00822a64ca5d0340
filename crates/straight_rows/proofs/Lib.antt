pub mod Places
pub mod Fitting
pub mod Calls
pub mod Reading
