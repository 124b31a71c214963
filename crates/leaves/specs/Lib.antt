pub mod Events
pub mod Fitting
pub mod Shown
pub mod Claims
