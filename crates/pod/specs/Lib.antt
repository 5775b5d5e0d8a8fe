pub mod Exports
pub mod Claims
