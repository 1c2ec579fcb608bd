pub mod Writing
pub mod Giving
pub mod Assembled
pub mod Characters
pub mod Saying
pub mod Linked
pub mod Worked
