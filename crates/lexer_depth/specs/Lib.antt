pub mod Effect
pub mod Levels
pub mod Held
