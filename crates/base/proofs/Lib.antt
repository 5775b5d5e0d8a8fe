pub mod Answers
pub mod Settled
pub mod Sweep
pub mod Rests
pub mod Rows
