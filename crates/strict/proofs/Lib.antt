pub mod FirstPlace
pub mod FirstAbove
pub mod AsLong
pub mod Determined
