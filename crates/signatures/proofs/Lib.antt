pub mod Walked
pub mod Laws
pub mod InKey
pub mod Determined
