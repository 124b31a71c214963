pub mod SetLemmas
pub mod UnitLemmas
pub mod ForcedLemmas
pub mod RoundsLemmas
pub mod ModelLemmas
pub mod RupLemmas
pub mod PropagateLemmas
pub mod PassLemmas
