pub mod InputLemmas
pub mod LibraryLemmas
pub mod ObjectLemmas
pub mod SourceLemmas
