pub mod Source
pub mod Configuration
pub mod Scopes
pub mod Entering
pub mod Forms
pub mod Giving
pub mod Exits
pub mod Transition
