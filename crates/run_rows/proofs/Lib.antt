pub mod Placed
pub mod Table
pub mod Called
pub mod Opened
pub mod Methods
