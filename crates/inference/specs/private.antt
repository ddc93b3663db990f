-- What no public contract cites: a reader need not believe any of it.
pub mod Adds
pub mod Prefixes
pub mod Described
