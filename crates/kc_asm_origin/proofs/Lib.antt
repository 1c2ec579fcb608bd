pub mod Between
pub mod Whole
pub mod Uses
pub mod Walks
pub mod SymbolWhole
