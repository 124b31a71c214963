pub mod Kept
pub mod Skipless
pub mod Results
pub mod Explored
