pub mod Held
pub mod Opening
pub mod Counted
pub mod Keeps
pub mod Methods
