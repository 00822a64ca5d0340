pub mod Activations
pub mod Blocks
pub mod Entering
pub mod Exceptions
pub mod Rows
