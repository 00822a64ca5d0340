pub mod Spelled
pub mod MarkLaws
