pub mod Tree
pub mod Verdict
pub mod Walks
pub mod Models
