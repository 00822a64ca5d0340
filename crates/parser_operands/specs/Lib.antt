pub mod Operands
pub mod Operators
