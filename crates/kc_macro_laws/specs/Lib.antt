pub mod Course
pub mod Nests
pub mod Constructs
pub mod Exits
pub mod Names
pub mod Ends
pub mod Kept
pub mod MadeNames
