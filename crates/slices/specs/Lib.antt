pub mod Nodes
pub mod Slice
pub mod Nexts
pub mod SliceFacts
