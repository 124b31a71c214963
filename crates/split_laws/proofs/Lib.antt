pub mod Merges
pub mod Splits
