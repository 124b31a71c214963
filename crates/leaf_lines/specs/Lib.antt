pub mod Terms
pub mod Values
pub mod Report
