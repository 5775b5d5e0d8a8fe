pub mod Lengths
pub mod Values
