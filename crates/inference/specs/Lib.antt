pub mod private
pub mod Puts
