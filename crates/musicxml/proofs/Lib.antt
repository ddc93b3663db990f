pub mod Pushed
pub mod Outside
pub mod Degree
pub mod Pitched
pub mod Whole
pub mod Replied
pub mod Determined
