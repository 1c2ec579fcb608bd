pub mod Counting
pub mod FaultLemmas
pub mod Stays
pub mod PairLemmas
pub mod RelocatableByteLemmas
pub mod ValueLemmas
