pub mod Doubled
pub mod Places
