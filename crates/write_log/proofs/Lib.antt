pub mod Steps
pub mod Offsets
pub mod Chained
pub mod Since
