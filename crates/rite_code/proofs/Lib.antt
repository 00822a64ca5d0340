pub mod Tables
pub mod RoundTrip
pub mod Fitting
