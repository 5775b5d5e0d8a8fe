pub mod Cases
pub mod Passes
pub mod Equivalence
pub mod SumRules
pub mod Ticks
pub mod Calls
pub mod Texts
pub mod Respelling
