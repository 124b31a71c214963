pub mod Counts
pub mod Explored
pub mod Programs
pub mod Right
pub mod Sides
pub mod Verdicts
pub mod Walks
