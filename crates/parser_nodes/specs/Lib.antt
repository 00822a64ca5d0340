pub mod Nodes
pub mod Listed
pub mod Leaf
pub mod Calls
