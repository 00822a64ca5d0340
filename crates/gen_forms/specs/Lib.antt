pub mod Gen
pub mod Around
pub mod Making
pub mod Marks
pub mod Open
