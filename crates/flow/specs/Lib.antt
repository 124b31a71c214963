pub mod Flow
pub mod Named
pub mod Paths
pub mod PathLaws
pub mod NamedLaws
pub mod Answers
