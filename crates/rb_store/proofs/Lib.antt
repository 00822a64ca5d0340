pub mod Names
pub mod Rows
mod Attached
pub mod Counted
pub mod Keeping
pub mod Kept
pub mod KeptClasses
pub mod Start
pub mod OpeningRows
pub mod Good
