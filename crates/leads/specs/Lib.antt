pub mod Lead
pub mod private
