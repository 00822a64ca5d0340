pub mod Completes
pub mod Belonging
