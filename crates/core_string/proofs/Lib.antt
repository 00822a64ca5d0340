pub mod Belonging
pub mod Steps
pub mod Places
