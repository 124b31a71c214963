pub mod OneText
pub mod Stopping
pub mod Answering
pub mod Slicing
