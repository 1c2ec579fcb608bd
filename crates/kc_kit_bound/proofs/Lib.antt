mod LineLemmas
pub mod StopLemmas
