pub mod FieldLaws
pub mod ReadLines
pub mod SampleLaws
pub mod ConverterSpans
pub mod ConvertedLaws
pub mod PulseSpanLaws
pub mod PulseRules
pub mod PulseHistory
