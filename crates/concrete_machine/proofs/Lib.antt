pub mod Controlled
pub mod Ended
pub mod Leading
pub mod Numbered
pub mod Runs
pub mod Stepped
pub mod Suited
pub mod Written
