pub mod Running
pub mod Frames
pub mod Standing
pub mod Control
pub mod Making
pub mod Ending
pub mod Stepping
pub mod Suiting
