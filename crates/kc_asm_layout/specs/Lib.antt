pub mod Places
pub mod Text
pub mod Laws
pub mod StatementSizes
pub mod Numbered
pub mod Bounds
pub mod SizesLaws
