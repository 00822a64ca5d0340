pub mod Pieces
pub mod Emission
pub mod Assembly
