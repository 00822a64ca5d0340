pub mod Names
pub mod Spaces
pub mod Making
pub mod Attributes
pub mod Methods
pub mod Constants
pub mod Rows
pub mod Named
