pub mod Resolving
pub mod Telling
