pub mod Methods
pub mod Chain
pub mod AncestorsLeft
pub mod Singletons
pub mod Including
pub mod Given
pub mod Growth
