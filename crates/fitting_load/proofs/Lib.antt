pub mod Tests
pub mod Cells
