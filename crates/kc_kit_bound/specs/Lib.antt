pub mod Refusals
pub mod Reports
pub mod Stops
pub mod Texts
pub mod Told
pub mod Walks
