pub mod Bridges
pub mod Exact
pub mod Examples
pub mod WalkSets
