pub mod Span
pub mod Timer1
pub mod DeferredUnit
pub mod Laws
