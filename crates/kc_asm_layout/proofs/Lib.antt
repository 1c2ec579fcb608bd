pub mod Gaps
pub mod Walking
pub mod Texts
pub mod Standing
pub mod Found
pub mod Reach
pub mod Steps
pub mod Numbers
pub mod BoundLemmas
mod Extents
pub mod Stays
