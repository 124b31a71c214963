pub mod Operations
pub mod Terms
pub mod KeptRows
pub mod KeptTerms
pub mod InputLemmas
pub mod ConditionLemmas
