pub mod GiverLemmas
pub mod NameLemmas
pub mod Places
pub mod ReadingLemmas
pub mod StandingLemmas
