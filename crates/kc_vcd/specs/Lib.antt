pub mod Variables
pub mod Changes
pub mod Dump
pub mod Writing
pub mod Dumped
pub mod Reader
pub mod Laws
pub mod Runs
