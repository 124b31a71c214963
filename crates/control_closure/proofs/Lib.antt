pub mod Found
pub mod ClosedSets
pub mod WalkSets
pub mod SumsUp
