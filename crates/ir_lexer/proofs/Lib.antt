pub mod Runs
pub mod Best
pub mod Found
pub mod Lexed
