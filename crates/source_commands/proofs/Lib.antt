pub mod Commands
pub mod Loops
