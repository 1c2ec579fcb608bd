pub mod Left
pub mod Acts
pub mod Outcomes
pub mod Words
pub mod Calls
pub mod Due
pub mod PlainLemmas
