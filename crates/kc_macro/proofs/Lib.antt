pub mod OperandLemmas
pub mod Soundness
pub mod RunLemmas
pub mod Ends
pub mod Plain
pub mod Turns
