pub mod Types
pub mod Typed
pub mod Errors
pub mod Steps
pub mod Laws
