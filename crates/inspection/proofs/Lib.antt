pub mod Right
pub mod Judging
pub mod Cases
pub mod Soundness
pub mod Renaming
pub mod Compiled
pub mod Calls
