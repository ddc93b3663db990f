pub mod Parts
pub mod Codes
pub mod Replies
pub mod Input
pub mod private
