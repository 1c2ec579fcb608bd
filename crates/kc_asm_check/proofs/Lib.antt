pub mod RegionLemmas
pub mod NameLemmas
pub mod RelocatableByteLemmas
pub mod SoundLemmas
pub mod WalkLemmas
pub mod StackLemmas
pub mod CountLemmas
