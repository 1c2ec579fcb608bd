pub mod Alike
pub mod RelocatableBytes
pub mod Filling
pub mod Sources
pub mod Images
pub mod Sections
pub mod Numbers
pub mod Sorted
pub mod Exists
pub mod OneAnswer
mod OriginLemmas
pub mod Reading
pub mod FaultFilling
pub mod Expanding
pub mod Least
pub mod Statements
pub mod Values
pub mod Lines
pub mod Others
pub mod Uses
pub mod Unknown
pub mod Names
pub mod Codes
pub mod Seen
pub mod Symbols
pub mod Standing
mod ListSections
mod Pieces
mod Counted
mod AllSpots
mod Once
mod One
mod Follow
pub mod ModuleValues
pub mod ModuleLines
pub mod Publics
pub mod Made
pub mod Linking
pub mod Answered
pub mod Expressions
pub mod BranchNames
pub mod Anchors
pub mod Reached
