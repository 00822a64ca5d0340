pub mod State
pub mod Unwind
pub mod Entering
pub mod Turn
pub mod Fits
pub mod Peak
