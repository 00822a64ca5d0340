pub mod Turns
pub mod Counts
pub mod Empty
pub mod Pushes
pub mod Cases
pub mod Wholes
pub mod Several
pub mod Groups
pub mod Lowered
mod Table
