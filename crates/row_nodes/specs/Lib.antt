pub mod Divisions
pub mod Gates
pub mod Moves
