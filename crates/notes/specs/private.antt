-- What no public contract cites: a reader need not believe any of it.
pub mod Heights
pub mod Known
