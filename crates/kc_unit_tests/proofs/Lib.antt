pub mod Blinks
pub mod Beats
pub mod Starts
