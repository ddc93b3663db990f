pub mod Names
pub mod private
