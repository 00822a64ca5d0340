pub mod ByteClass
pub mod Keyword
pub mod Marks
pub mod Following
pub mod Spelling
