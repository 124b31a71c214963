pub mod ResidualRun
pub mod Simulation
pub mod Moments
pub mod CallsInRuns
pub mod OneSlice
