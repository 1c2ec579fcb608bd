pub mod Operands
pub mod Steps
pub mod Expansion
pub mod Plain
