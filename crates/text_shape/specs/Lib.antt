pub mod Shape
pub mod Caches
