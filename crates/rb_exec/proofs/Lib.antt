pub mod Executed
pub mod InMemory
