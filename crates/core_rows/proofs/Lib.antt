pub mod Checked
pub mod Texts
pub mod Leaving
pub mod Places
pub mod Keeping
