pub mod Strings
pub mod Lines
pub mod Places
pub mod Reporting
pub mod Read
