pub mod Enabled
pub mod Closed
pub mod Requests
pub mod Asking
pub mod Latency
pub mod Gaps
pub mod Entries
pub mod Times
