pub mod Source
pub mod Gives
pub mod Ranges
