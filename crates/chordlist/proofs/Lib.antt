pub mod Parting
pub mod Streams
pub mod Spaced
pub mod Reading
pub mod Printing
pub mod Bytewise
pub mod Determined
