pub mod Ended
pub mod Diagnostics
pub mod Outside
pub mod Reads
pub mod Response
pub mod Shown
pub mod Writes
