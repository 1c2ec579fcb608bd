pub mod EndLemmas
pub mod LongLemmas
pub mod ReadLemmas
pub mod ResponseLemmas
mod Reporting
