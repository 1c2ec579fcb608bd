pub mod Runs
pub mod Works
pub mod Idle
pub mod Coming
pub mod Calls
