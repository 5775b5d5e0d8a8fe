pub mod Compilation
pub mod Table
pub mod Calls
pub mod Claims
pub mod Cases
