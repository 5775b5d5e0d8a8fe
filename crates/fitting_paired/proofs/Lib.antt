pub mod Tests
pub mod Running
