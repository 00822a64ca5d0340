pub mod Layout
pub mod Registers
pub mod Scope
