pub mod Parts
pub mod Bounds
