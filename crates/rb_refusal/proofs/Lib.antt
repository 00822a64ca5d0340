pub mod Writing
pub mod Progress
