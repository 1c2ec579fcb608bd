pub mod Profile
pub mod Calls
pub mod Written
pub mod Past
