pub mod Asked
pub mod Ticked
pub mod Past
pub mod Going
