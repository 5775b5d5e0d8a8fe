pub mod Rules
pub mod BigStep
pub mod Calls
pub mod Claims
pub mod Cases
