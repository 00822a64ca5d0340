pub mod Answering
pub mod Collections
pub mod Definitions
pub mod Leaving
pub mod Parameters
pub mod Procs
pub mod Variables
