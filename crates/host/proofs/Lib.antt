pub mod Wide
pub mod ReadBack
pub mod Determined
