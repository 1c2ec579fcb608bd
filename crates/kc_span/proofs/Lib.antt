pub mod SpanLaws
pub mod DeferredUnits
