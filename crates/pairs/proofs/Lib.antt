pub mod FirstBad
pub mod Determined
