pub mod Xml
pub mod Degrees
pub mod Kinds
pub mod Harmony
pub mod Scanning
pub mod Chords
pub mod Reading
