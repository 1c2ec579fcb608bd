pub mod Left
pub mod Costs
pub mod PlainBus
pub mod Holding
