pub mod Logs
pub mod Reading
pub mod Needs
pub mod Standing
pub mod Law
