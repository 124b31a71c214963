pub mod Decided
pub mod Inputs
pub mod Found
