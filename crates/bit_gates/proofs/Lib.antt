pub mod TermRows
pub mod VariableLemmas
