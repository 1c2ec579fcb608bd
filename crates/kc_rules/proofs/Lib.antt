pub mod WordLemmas
pub mod GcdLemmas
pub mod NameLemmas
pub mod ReadLemmas
pub mod EventLemmas
