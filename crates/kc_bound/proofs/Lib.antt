pub mod Prices
pub mod States
pub mod Rom
pub mod GoingOn
pub mod StandsAt
pub mod Activities
pub mod Begins
pub mod Follows
pub mod Paid
pub mod Ahead
pub mod Positive
pub mod Keeps
pub mod OnWays
pub mod Steps
pub mod Passes
mod CheckLemmas
mod ReadingLemmas
mod Rising
