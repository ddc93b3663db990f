pub mod Bass
pub mod Sets
pub mod Intervals
pub mod private
