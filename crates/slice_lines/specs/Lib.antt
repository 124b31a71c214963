pub mod Targets
pub mod Slices
