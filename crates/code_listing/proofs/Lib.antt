pub mod Numbered
pub mod CodeLines
pub mod SectionLists
pub mod Names
