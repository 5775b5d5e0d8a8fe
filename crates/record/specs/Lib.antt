pub mod Records
pub mod Bytes
pub mod Buffer
pub mod Claims
pub mod Cases
pub mod Code
