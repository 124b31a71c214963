mod Rows
mod Forks
mod Traces
pub mod Fitted
pub mod Widths
pub mod Remembered
pub mod Evaluating
pub mod Steady
pub mod Splits
