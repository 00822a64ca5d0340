pub mod Items
pub mod Widths
