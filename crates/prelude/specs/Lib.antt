pub mod Shapes
pub mod Functions
pub mod Copying
pub mod Prelude
pub mod Primitives
