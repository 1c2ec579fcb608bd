pub mod Fields
pub mod Commands
pub mod Reading
pub mod Script
pub mod LineMap
pub mod Spelling
pub mod Laws
