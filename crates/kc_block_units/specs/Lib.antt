pub mod Scheduler
pub mod Laws
pub mod Rows
pub mod Events
pub mod Standing
pub mod Next
pub mod Asked
