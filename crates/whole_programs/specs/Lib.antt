pub mod Few
pub mod Programs
