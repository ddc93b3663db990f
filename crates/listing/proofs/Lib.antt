pub mod Compared
pub mod Laws
pub mod Found
pub mod Determined
