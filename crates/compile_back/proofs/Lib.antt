pub mod Finding
pub mod Read
pub mod Tests
pub mod GoingBack
