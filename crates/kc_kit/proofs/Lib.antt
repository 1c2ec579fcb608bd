mod AnswerLemmas
pub mod Ending
mod DiagnosticLemmas
