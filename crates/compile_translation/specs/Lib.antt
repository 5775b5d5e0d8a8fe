pub mod Standing
pub mod Steps
pub mod Translated
