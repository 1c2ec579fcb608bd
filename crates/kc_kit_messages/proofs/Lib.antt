pub mod Rows
pub mod Explained
pub mod Distinct
pub mod DiagnosticLemmas
pub mod Words
pub mod Numbered
