pub mod Width
pub mod Walk
pub mod Steps
