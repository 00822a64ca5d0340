pub mod Lifted
pub mod Above
