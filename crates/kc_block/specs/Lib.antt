pub mod Seen
pub mod Lent
pub mod Sound
pub mod Accessed
