pub mod Told
pub mod TreeParts
