pub mod Faults
pub mod Known
pub mod Passing
pub mod Clear
