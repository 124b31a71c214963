pub mod Telling
pub mod Values
pub mod Heads
pub mod Judging
