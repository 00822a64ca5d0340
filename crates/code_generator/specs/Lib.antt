pub mod Names
pub mod Limits
pub mod Emission
pub mod Gen
pub mod Implements
pub mod Witness
pub mod Narrow
pub mod Built
