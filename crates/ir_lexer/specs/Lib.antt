pub mod Forms
pub mod Lexing
pub mod Scanning
pub mod Classes
