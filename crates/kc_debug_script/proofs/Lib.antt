pub mod Saying
pub mod Grammar
pub mod Limits
pub mod Orders
pub mod Spelling
