pub mod Acts
pub mod Ends
pub mod Answers
pub mod Rows
pub mod Code
