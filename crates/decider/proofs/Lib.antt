pub mod ReadLemmas
pub mod OrderLemmas
pub mod KeptOperations
pub mod OnlyLemmas
pub mod LogLemmas
pub mod DecidedLemmas
pub mod FoundLemmas
pub mod AnswerLemmas
