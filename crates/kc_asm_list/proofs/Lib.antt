pub mod Refused
pub mod Walk
mod Kept
mod Order
pub mod Places
mod Sorted
mod Steps
pub mod Course
pub mod Grown
pub mod Agreement
pub mod Plain
