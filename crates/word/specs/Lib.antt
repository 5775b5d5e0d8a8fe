pub mod Sums
pub mod Numbers
pub mod Targets
pub mod Claims
pub mod Cases
