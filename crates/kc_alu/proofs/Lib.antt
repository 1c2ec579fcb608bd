pub mod NumberLemmas
pub mod Places
pub mod Normal
