pub mod Sorted
pub mod Sift
pub mod Gathered
pub mod Laid
pub mod Among
pub mod Determined
pub mod Left
