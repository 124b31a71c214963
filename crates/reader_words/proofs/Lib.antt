pub mod Gather
pub mod Digits
pub mod Escapes
pub mod Tables
pub mod Turns
