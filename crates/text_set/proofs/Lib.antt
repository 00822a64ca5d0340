pub mod Sets
pub mod Copies
