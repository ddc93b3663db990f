pub mod Refusals
pub mod Replies
pub mod Words
pub mod Written
pub mod Lines
pub mod First
pub mod Made
