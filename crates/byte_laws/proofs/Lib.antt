pub mod Cuts
pub mod Judged
pub mod Numbers
pub mod Pendings
pub mod Pointers
pub mod Joins
