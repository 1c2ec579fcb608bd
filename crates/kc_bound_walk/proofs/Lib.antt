pub mod Leading
pub mod Turning
pub mod Spending
pub mod PartLemmas
