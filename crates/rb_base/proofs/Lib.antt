pub mod Entries
pub mod Known
pub mod Moving
pub mod Taking
