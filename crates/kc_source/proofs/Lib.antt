pub mod TableLemmas
pub mod PassLemmas
pub mod ClearLemmas
