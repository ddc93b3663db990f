pub mod Shown
pub mod Described
pub mod Replied
pub mod Determined
