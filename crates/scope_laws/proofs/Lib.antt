pub mod Evaluation
pub mod Machine
pub mod Alike
