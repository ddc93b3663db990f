pub mod Guides
pub mod Range
pub mod Voicing
