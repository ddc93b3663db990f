pub mod Kinds
pub mod Descriptors
pub mod private
