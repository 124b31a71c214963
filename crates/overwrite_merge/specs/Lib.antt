pub mod Merges
pub mod Bases
