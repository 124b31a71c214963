pub mod OneByOne
pub mod Levels
pub mod Walking
pub mod Heads
pub mod Offsets
pub mod Stepping
pub mod Filling
