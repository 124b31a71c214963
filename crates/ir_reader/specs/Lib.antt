pub mod Entities
pub mod Reading
pub mod Refusing
