pub mod Gives
pub mod Types
pub mod Values
pub mod Constants
pub mod Operations
pub mod Blocks
pub mod Module
