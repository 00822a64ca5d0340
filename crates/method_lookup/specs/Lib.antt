pub mod Given
pub mod Probes
pub mod Cache
