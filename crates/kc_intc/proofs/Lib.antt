pub mod Greatest
pub mod Changed
pub mod Sets
