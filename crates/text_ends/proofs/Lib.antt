pub mod Passing
pub mod Caching
pub mod Noting
pub mod Finding
pub mod Longer
