pub mod Keeping
pub mod Going
pub mod Following
pub mod Works
pub mod Fitted
mod Never
mod FeedingLaws
