pub mod Board
pub mod Scene
pub mod Machine
pub mod Run
pub mod Work
pub mod Passing
pub mod Peeking
pub mod Text
