pub mod Memory
pub mod Items
pub mod Links
pub mod Walks
