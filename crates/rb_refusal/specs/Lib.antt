pub mod Writing
pub mod RefusalText
