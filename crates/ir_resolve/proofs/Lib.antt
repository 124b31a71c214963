pub mod Merging
pub mod Telling_more
pub mod Ordering
pub mod Reading
pub mod Casing
pub mod Concluding
pub mod Calling
