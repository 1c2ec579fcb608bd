pub mod Arguments
pub mod Content
pub mod Seen
pub mod Alignment
pub mod Faults
pub mod Laws
pub mod Pairing
pub mod Bases
