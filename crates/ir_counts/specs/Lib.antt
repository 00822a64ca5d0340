pub mod Bodies
pub mod Counts
pub mod Facts
pub mod Limits
pub mod Sets
pub mod Tables
pub mod Tally
