mod Examples
mod Levels
pub mod Writing
pub mod Spelled
pub mod Lines
