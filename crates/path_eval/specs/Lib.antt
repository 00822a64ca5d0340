pub mod Seen
pub mod Steps
pub mod Configuration
pub mod Transition
pub mod Measure
