pub mod Held
pub mod Pool
pub mod Order
