pub mod Replies
pub mod private
