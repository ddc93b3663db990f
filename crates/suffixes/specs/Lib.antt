pub mod Sets
pub mod Members
