pub mod FirstBytes
pub mod PrintedAlike
pub mod Cases
