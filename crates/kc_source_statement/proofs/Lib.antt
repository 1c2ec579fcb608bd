pub mod PartLemmas
pub mod OperandLemmas
pub mod FormedLemmas
