pub mod Choice
pub mod private
