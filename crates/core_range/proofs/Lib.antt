pub mod SameEnds
pub mod MoreItems
