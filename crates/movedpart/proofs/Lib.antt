pub mod Raised
pub mod Calls
pub mod MovedPart
