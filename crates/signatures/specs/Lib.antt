pub mod Signature
pub mod Part
