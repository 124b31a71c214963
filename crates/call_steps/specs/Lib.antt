pub mod Frees
pub mod Moves
