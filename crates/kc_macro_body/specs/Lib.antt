pub mod Words
pub mod Arguments
pub mod Bodies
pub mod Filling
pub mod Calls
pub mod MacroCode
