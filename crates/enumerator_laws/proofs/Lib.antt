pub mod Order
pub mod Own
pub mod Cursors
pub mod Rows
pub mod Begins
pub mod Exactly
pub mod Witness
