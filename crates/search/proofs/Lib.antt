pub mod TreeLemmas
pub mod WalkLemmas
pub mod NodeLemmas
pub mod RefutedLemmas
pub mod ModelLemmas
pub mod LogLemmas
pub mod CountLemmas
