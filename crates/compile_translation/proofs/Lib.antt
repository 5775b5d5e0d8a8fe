pub mod Renaming
pub mod Standing
pub mod Rows
pub mod Mentions
pub mod Numbering
pub mod Numbers
pub mod Translating
pub mod Compiling
