pub mod Meets
pub mod Copies
