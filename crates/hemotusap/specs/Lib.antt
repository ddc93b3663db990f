pub mod Host
pub mod Rooms
