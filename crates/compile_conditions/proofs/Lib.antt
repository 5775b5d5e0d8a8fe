pub mod Rows
pub mod Fronts
pub mod Sides
pub mod Nots
