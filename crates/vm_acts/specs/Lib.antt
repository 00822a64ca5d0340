pub mod Arithmetic
pub mod Calls
pub mod Ends
pub mod Execution
pub mod Parts
pub mod Supers
