pub mod Laws
pub mod Shared
