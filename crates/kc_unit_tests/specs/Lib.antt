pub mod Blinking
pub mod BlinkingLaws
pub mod Beating
pub mod BeatingLaws
pub mod Starting
