pub mod Rows
pub mod Members
pub mod Masked
pub mod Counted
pub mod Wheres
pub mod Rooted
pub mod Determined
pub mod Width
