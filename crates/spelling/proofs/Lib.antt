pub mod Spelled
pub mod Row
pub mod Replied
pub mod Computed
pub mod Sheet
pub mod Room
pub mod Letters
pub mod Determined
