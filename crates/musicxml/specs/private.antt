-- What no public contract cites: a reader need not believe any of it.
pub mod Texts
pub mod Kinds
pub mod Degrees
pub mod Pitches
