pub mod Asked
pub mod Points
pub mod Rows
pub mod Solving
pub mod Sets
pub mod Within
pub mod Sample
