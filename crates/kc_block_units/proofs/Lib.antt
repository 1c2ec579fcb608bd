pub mod Levels
pub mod Spans
pub mod Rows
pub mod Due
pub mod CatchingUp
pub mod Known
pub mod Joins
pub mod Timer1
pub mod NextDue
pub mod Carried
pub mod Started
mod Wires
pub mod InputMasks
pub mod Leads
pub mod StartLevels
