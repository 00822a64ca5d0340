pub mod Straight
pub mod Named
pub mod Numbered
pub mod Calls
pub mod Opening
pub mod Methods
pub mod Above
pub mod Given
