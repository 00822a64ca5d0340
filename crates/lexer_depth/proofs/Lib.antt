pub mod Growth
pub mod Around
