pub mod Filed
pub mod Refused
