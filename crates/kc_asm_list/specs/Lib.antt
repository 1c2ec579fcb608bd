pub mod Spots
pub mod Listed
pub mod RelocatableBytes
pub mod Rows
pub mod Order
pub mod Depths
pub mod Laws
