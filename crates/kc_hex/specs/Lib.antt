pub mod Codes
pub mod Law
pub mod Records
pub mod Spelling
