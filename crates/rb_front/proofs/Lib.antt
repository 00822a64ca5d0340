pub mod Cores
pub mod Misplaced
pub mod Refusals
