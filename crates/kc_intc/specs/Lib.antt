pub mod Sets
pub mod Choosing
pub mod Changes
pub mod Laws
