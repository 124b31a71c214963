pub mod Widths
pub mod Readables
pub mod EdgeCounts
pub mod Kept
pub mod EdgeNodes
