pub mod Rows
pub mod FirstRule
pub mod Determined
