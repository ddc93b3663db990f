pub mod Classes
pub mod Parts
pub mod Stack
pub mod Heading
pub mod Suffix
pub mod private
