pub mod Begins
pub mod Falls
pub mod Has
pub mod Exist
pub mod Cuts
pub mod Open
pub mod Calls
pub mod Pending
