pub mod Lists
pub mod Read
pub mod Changed
pub mod Directly
pub mod Named
pub mod Rows
