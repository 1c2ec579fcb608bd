pub mod AheadLemmas
pub mod CutLemmas
pub mod FilledLemmas
