pub mod TermBits
pub mod Conditions
