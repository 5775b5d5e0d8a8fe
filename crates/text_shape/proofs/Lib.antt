pub mod Caching
pub mod Constants
