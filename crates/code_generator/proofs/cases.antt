pub mod Strict
pub mod Locals
pub mod Sequence
pub mod Branches
pub mod Loops
pub mod Ends
