pub mod Goes
pub mod Straight
pub mod Compared
pub mod Called
