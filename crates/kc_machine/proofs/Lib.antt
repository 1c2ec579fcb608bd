pub mod Noting
pub mod Fitting
pub mod Fetching
pub mod Finishing
pub mod Pins
pub mod Handing
pub mod Failing
pub mod Going
pub mod Ticked
mod Prepared
