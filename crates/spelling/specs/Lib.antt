pub mod Tones
pub mod Letters
