pub mod Raised
pub mod Calls
