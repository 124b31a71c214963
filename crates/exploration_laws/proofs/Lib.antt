pub mod Givers
pub mod Walks
pub mod Attempts
pub mod Merges
pub mod Evaluations
pub mod Existence
pub mod Cuts
pub mod Open
pub mod Calls
pub mod NamedValues
pub mod NamedLogs
pub mod NamedCalls
pub mod NamedSteps
pub mod NamedMerges
mod Worked
