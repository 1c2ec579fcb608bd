pub mod Alike
pub mod OneAnswer
pub mod Readable
pub mod StartLevels
pub mod Told
