pub mod Kinds
pub mod Integers
pub mod Numbers
pub mod Escaping
pub mod Modified
pub mod PlainEscapes
