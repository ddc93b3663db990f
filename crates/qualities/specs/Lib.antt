pub mod Qualities
pub mod Masks
pub mod private
