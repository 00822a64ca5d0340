pub mod Direct
pub mod Repeated
pub mod Items
pub mod Comes
pub mod Dropped
pub mod Sifted
pub mod Joined
pub mod Numbers
