pub mod Parsed
pub mod Computed
pub mod Degrees
pub mod Lossless
pub mod Texts
pub mod Long
pub mod Sheet
