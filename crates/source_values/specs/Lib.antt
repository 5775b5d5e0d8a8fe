pub mod Placed
pub mod Code
