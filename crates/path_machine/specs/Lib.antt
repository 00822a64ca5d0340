pub mod Run
pub mod Course
pub mod Standing
