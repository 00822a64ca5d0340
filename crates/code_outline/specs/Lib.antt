pub mod Laws
pub mod Layout
pub mod Makers
pub mod Makes
pub mod Making
pub mod Marks
pub mod Outlined
pub mod Rows
