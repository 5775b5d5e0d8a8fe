pub mod ByNumbers
pub mod Testing
