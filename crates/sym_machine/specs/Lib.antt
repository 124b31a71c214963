pub mod Explored
pub mod Kinds
pub mod Numbers
pub mod Turns
