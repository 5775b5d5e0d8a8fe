pub mod Tested
pub mod AddressMarks
pub mod Sights
pub mod Cases
