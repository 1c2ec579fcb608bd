pub mod Life
pub mod Spans
pub mod Lives
pub mod Making
pub mod Watching
pub mod WatchLaws
pub mod Feeding
