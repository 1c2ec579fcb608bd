pub mod Codes
pub mod Fields
pub mod Places
pub mod Records
