pub mod Numbers
pub mod Folds
pub mod Kept
pub mod Bytes
pub mod Notes
