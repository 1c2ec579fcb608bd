pub mod TallyLemmas
pub mod SpreadLemmas
pub mod GapLemmas
pub mod PieceLemmas
pub mod AfterLemmas
pub mod PointLemmas
pub mod DistanceLemmas
pub mod SideLemmas
