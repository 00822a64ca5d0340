pub mod Fused
pub mod Views
pub mod ViewsBy
