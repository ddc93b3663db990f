pub mod Told
pub mod Determined
pub mod Rooms
pub mod Range
pub mod Refusals
pub mod Exported
