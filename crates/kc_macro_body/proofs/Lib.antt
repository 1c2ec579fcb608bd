pub mod ArgumentLemmas
pub mod BodyLemmas
pub mod FillLemmas
