pub mod Segments
pub mod Names
pub mod RowTable
