pub mod Bound
pub mod Counted
pub mod Example
