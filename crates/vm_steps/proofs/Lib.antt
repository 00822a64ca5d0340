pub mod Binding
pub mod Pairing
pub mod Remembering
pub mod Telling
