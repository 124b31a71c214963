pub mod Along
pub mod Births
pub mod Bounds
pub mod CallNodes
mod Cited
pub mod Here
pub mod MemoryNodes
pub mod Nodes
pub mod Numbers
pub mod Plain
pub mod Reading
pub mod SetEnds
pub mod SetFrames
pub mod Sets
pub mod Starts
pub mod Storing
pub mod Values
pub mod Whole
