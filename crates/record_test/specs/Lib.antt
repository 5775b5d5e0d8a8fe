pub mod Code
pub mod Tests
