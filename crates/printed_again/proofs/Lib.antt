pub mod Backs
pub mod Tells
pub mod Bytes
pub mod Names
pub mod Numbers
pub mod Lists
pub mod Types
pub mod Values
pub mod Constants
pub mod Operations
pub mod Lines
pub mod Terminators
pub mod Blocks
pub mod Module
pub mod Renumbered
pub mod Law
pub mod Seen
mod Examples
