pub mod Tested
pub mod Bits
pub mod AddressMarks
pub mod Marking
pub mod Sights
pub mod Cases
