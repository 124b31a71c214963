pub mod Single
pub mod TypesExact
pub mod ConstantsExact
pub mod InstructionsExact
pub mod ModuleExact
pub mod Decided
mod Examples
