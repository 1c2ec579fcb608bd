pub mod Codes
pub mod Checking
pub mod Putting
pub mod Checked
pub mod Walk
pub mod Laws
