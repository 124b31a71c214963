pub mod Accesses
pub mod Cutting
pub mod Loading
pub mod Objects
pub mod Standing
