pub mod MoveLemmas
pub mod RowLemmas
