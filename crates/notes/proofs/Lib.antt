pub mod Counts
pub mod Moves
pub mod Names
pub mod Signs
pub mod Determined
pub mod Sounding
pub mod Known
