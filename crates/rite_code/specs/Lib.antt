pub mod Instruction
pub mod Table
pub mod Operation
pub mod Shape
pub mod Spelling
pub mod Code
pub mod Cause
