pub mod Ahead
pub mod Cuts
pub mod Filled
pub mod Pieces
