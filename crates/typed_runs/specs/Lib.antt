pub mod Counting
pub mod FittingRuns
pub mod Laws
pub mod Shown
pub mod Suiting
pub mod TypedRuns
