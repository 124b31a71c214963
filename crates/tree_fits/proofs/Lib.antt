pub mod Tokens
pub mod Leading
pub mod Pushing
pub mod Known
