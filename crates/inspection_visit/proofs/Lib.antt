pub mod Labelling
pub mod Telling
pub mod Following
pub mod Visiting
