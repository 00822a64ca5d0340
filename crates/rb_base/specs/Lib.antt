pub mod Buffers
pub mod Memory
pub mod Option
pub mod Outside
pub mod Result
pub mod Steps
pub mod Streams
