pub mod Ends
pub mod Status
pub mod Changes
pub mod Sets
pub mod Services
pub mod Activity
pub mod OnWay
pub mod Steps
pub mod Passes
mod CheckLemmas
mod Choice
mod Ways
mod Begins
mod Owes
mod Goes
mod Gaps
mod Entries
mod PriceLemmas
mod LatencyChecks
