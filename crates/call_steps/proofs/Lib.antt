pub mod Ending
pub mod Freed
pub mod Moved
pub mod Unset
