pub mod Ascii
pub mod Numbers
pub mod Printing
pub mod Claims
pub mod Cases
