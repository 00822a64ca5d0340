pub mod Reading
pub mod Literals
pub mod Brackets
pub mod Parameters
pub mod Definitions
