pub mod Randoms
pub mod Sources
pub mod Stimuli
