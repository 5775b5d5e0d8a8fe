pub mod Guards
pub mod Calls
