pub mod Closed
pub mod Quotients
pub mod SampleLaws
pub mod FrameLaws
pub mod PortLaws
pub mod HistoryLaws
mod AccessLaws
mod WaitLaws
mod ScheduleLaws
mod UniqueLaws
mod LineLaws
mod ReceptionLaws
mod KnownLaws
mod WorkedLaws
