pub mod Ring
pub mod Removed
pub mod Owned
pub mod Led
pub mod Laws
pub mod Determined
